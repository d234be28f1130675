-- `FieldsShown`: of a packet and of what a reader shows of it, the same.
pub mod FieldsShown

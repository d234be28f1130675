-- Laws of the marks that the search for the lowest free place makes. What the bytes of a table mean stands in the crate `table_laws`.
pub mod LowestLaws

-- What private functions alone cite. The contracts of the public ones cite `table_laws`.
pub mod Marks
pub mod Lent

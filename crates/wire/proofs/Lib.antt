-- `Numbers` has the laws of bytes and of the numbers that they make, `Copy` those of copying, `TwoBytes` those of numbers of two bytes; for the crates above too.
pub mod Numbers
pub mod Copy
pub mod TwoBytes

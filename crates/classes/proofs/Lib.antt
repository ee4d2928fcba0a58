-- Laws that the proofs of the functions share.
pub mod Search
pub mod Counting
pub mod Rows
pub mod Keys
pub mod Powers
pub mod Placing
pub mod Comparing
pub mod Arrays
pub mod Outputs

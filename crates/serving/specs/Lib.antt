-- A network's tables and reading sets as a core of cells: it computes a design exactly when the core serves.
pub mod NetworkCore
pub mod Parts
pub mod Tells
pub mod Build
pub mod Compose
pub mod TheoremA
pub mod ClassCodes
pub mod FullReads

-- Core has the definitions that contracts of the search cite; the other files' definitions are for its proofs, and each file ..Laws has
-- the laws of the file that its name begins with. AppendLaws has lists of cells put together, PigeonLaws how many codes can differ.
pub mod Core
pub mod AppendLaws
pub mod Lists
pub mod ListLaws
pub mod Codes
pub mod CodesLaws
pub mod PigeonLaws
pub mod Written
pub mod WrittenLaws
pub mod Free
pub mod FreeLaws
pub mod FullSize
pub mod FullSizeLaws
pub mod Shared
pub mod SharedLaws
pub mod Sets
pub mod SetsLaws
pub mod Swap
pub mod SwapLaws
pub mod Reorder
pub mod ReorderLaws
pub mod Renumbered
pub mod RenumberedLaws

-- What the proofs of several functions share.
pub mod Arrays
pub mod Refused
pub mod ExportDemand

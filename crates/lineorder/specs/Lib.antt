-- Byte order of network sheets, line by line, with the laws that the crates above cite.
pub mod LineOrder
pub mod PrintOrder
pub mod NodeOrder
pub mod NodeDigits
pub mod ReadingSets
pub mod CoreDigits
pub mod First
pub mod Worked

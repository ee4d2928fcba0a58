-- Located and Places have the definitions that the contracts cite.
pub mod Located
pub mod Places
pub mod Worked
pub mod IsLine
pub mod Reached
pub mod LineLaws
pub mod InsideLaws
pub mod NumberLaws
pub mod ReachedLaws
pub mod PlaceLaws

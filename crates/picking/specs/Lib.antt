-- Picked has what the crate answers for; Best has what its functions answer for. The other files hold laws.
pub mod Picked
pub mod Best
pub mod SoonerLaws
pub mod BestLaws
pub mod PickedLaws

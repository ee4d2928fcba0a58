-- Reasons has the definitions that contracts cite, Counting those of the count of kinds; the other files hold laws.
pub mod Reasons
pub mod Counting
pub mod CountingLaws
pub mod RaisingLaws

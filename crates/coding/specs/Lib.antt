-- Definitions that contracts cite: Exchange groups of cells and codes with the same blocks, Known the codes with a known digit, Values the
-- values that a search may ask of a vertex, Tried the codes of a vertex tried one after another, Limit what is said of a search that
-- may be given up. Their laws stand in the file of that name with Laws; the rule that prunes is in ValuesLaws.
pub mod Exchange
pub mod ExchangeLaws
pub mod Known
pub mod KnownLaws
pub mod Values
pub mod ValuesLaws
pub mod Tried
pub mod TriedLaws
pub mod Limit
pub mod LimitLaws

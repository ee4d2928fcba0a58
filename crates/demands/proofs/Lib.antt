-- What rests on every part of a demand.
pub mod ThirdDemand
pub mod GateLaws

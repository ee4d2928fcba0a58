-- Number has the definitions that contracts cite, NumberLaws their laws.
pub mod Number
pub mod NumberLaws

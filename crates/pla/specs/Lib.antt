-- The demands on a PLA panel, and that it gets the answers of a sheet with the same tables.
pub mod Demand1
pub mod DemandLaws
pub mod FunctionLaws
pub mod SameTables
pub mod SameTablesLaws
pub mod Worked

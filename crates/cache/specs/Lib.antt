-- Cache has the definitions that contracts cite and the invariants of the loops, CacheLaws their laws.
pub mod Cache
pub mod CacheLaws

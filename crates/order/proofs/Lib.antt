-- What rests on the order of lists being total: TotalLaws says that it is, LeastSteps what one digit more decides.
pub mod TotalLaws
pub mod LeastSteps

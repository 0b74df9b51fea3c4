-- What the functions' proofs cite.
pub mod Passed
pub mod AllTested
pub mod EachPlace
pub mod EmptySets
pub mod HeldByOthers
pub mod OthersLeave
pub mod Steppers
pub mod TestByTest
-- One answer, one state.
pub mod Unique
-- Demand 3, for the code.
pub mod CodeSteps
pub mod PlayingIsRunning
pub mod RacesArePlayed

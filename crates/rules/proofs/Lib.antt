-- The worked examples.
pub mod Examples
-- What tests and accepted tables say.
pub mod Bools
pub mod Bounded
pub mod Unions
pub mod Reading
pub mod Accepted
pub mod Places
pub mod Lists
-- The tree and the nearest common scheduler.
pub mod Nodes
pub mod Climbs
pub mod Nearest
pub mod NearestFromChildren
-- Demand 2: priorities and thresholds mean preemption.
pub mod Sums
pub mod Widths
pub mod Ranges
pub mod RangesDecide
pub mod Walked
pub mod WalkIsClosed
pub mod Counting
pub mod EachMet
pub mod WidthBound
pub mod PreemptiveOnly
pub mod ThresholdsExist
pub mod ThresholdsMeanPreemption
pub mod PriorityLaws
-- Demand 3: a race is reached, nothing else is, and all drains.
pub mod States
pub mod Steps
pub mod Over
pub mod Invariants
pub mod LastStepped
pub mod Draining
pub mod Racing
pub mod FourSteps
pub mod RacesAreReached
-- The listing: numbers, examples, and how much input and room are enough. What every call answers fits 32 bits.
pub mod Decimal
pub mod ListingExamples
pub mod SameStart
pub mod CutInput
pub mod FewPairs
pub mod ListingRoom
pub mod AnswersFit

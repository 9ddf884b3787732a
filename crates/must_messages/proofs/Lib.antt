pub mod WorkedCalls
mod Worked
mod WorkedStatuses
mod WorkedNeeds
mod WorkedRound
pub mod Contradicting

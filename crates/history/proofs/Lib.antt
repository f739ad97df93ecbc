-- `History` is the theorem over every list of calls, `Answered` that there is a history of each, `Consequences` what a reader may take from both,
-- `Rows` what becomes of loaded rows, `Changes` of a change of surface, `Openings` of an opening, `Beginnings` how a lane begins, `Handovers` who takes one over, `Readings` from which texts. Before them the road
-- book against the lane's laws: one call of each kind, a cycle, lane and book in agreement.
mod Bits
mod Fronts
mod Books
mod CycleRuns
mod Agreement
mod Lasting
pub mod History
pub mod Answered
pub mod Rows
mod Events
pub mod Changes
pub mod Openings
pub mod Beginnings
pub mod Handovers
pub mod Readings
pub mod Consequences
pub mod Remaining

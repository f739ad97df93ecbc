-- What the crates above may use: `Refused`, that no refusal has the number 0; `Laws`, `Alike`, `CallLaws`, `CycleLaws`, `TableLaws` and `Answerable`;
-- `Newcomers`, an entry's own values in numbers, `EntryLaws`, who is let in, `OpeningLaws`, where one could enter, `SurfaceLaws`, a change of surface,
-- `HandoverLaws`, one lane has one text, and `HandoverNumbers`, which lane gets 36 and which 37. `Unbroken` is what 21 passes, `Cases` the table of the
-- marked cases, and `Looked` says what a lookup's count means. Before them stand the laws behind them and behind the functions, in groups; a function's
-- own proof is in a folder of its module's and its own name.
pub mod Refused
mod lists
mod checks
mod driving
mod calls
pub mod Newcomers
pub mod EntryLaws
pub mod OpeningLaws
mod Unbroken
pub mod Laws
mod Cases
mod Looked
pub mod Alike
pub mod CallLaws
pub mod SurfaceLaws
pub mod CycleLaws
pub mod TableLaws
pub mod HandoverLaws
pub mod HandoverNumbers
pub mod Answerable

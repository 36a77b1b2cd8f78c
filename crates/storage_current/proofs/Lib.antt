mod Heights
pub mod Padding
mod Places
pub mod RangeSound
pub mod Bits
pub mod OperationSound
pub mod Keys
pub mod WellFormed
pub mod KeyAnswers
pub mod RangeOwn
pub mod WitnessSound
pub mod Families
pub mod Examples
mod Grafts
mod ChunkLengths
mod Raised
mod Joined
mod Rebuilt
mod Pinned
mod Pruning
mod CombinedViews
mod StoresOfViews
mod PrunedViews
mod KeptChunks
mod Regrafting
mod Retaining
mod Forgetting
mod Exclusions
mod Splitting
pub mod Windows
mod Checks
mod Extracting
mod NodeSteps
mod NodeLists
mod MemViews
mod Roots
mod Written
pub mod OwnSites
pub mod OwnWritten
mod Built
mod Required
mod WitnessWritten
mod Fetching
mod Making
mod Serving
mod SharedChunks
mod Extending
mod Growing
mod PinSites
mod Pins
mod PinReads
mod PinRoots
mod PinMeanings
mod Openings
mod Beginnings
mod Tails
mod SnapshotTails

mod Texts
mod ListLemmas
mod RowLemmas
mod AgreedLemmas
mod InsertLemmas
mod InsideLemmas
mod AddLemmas
mod CreateLemmas
pub mod CommitLemmas
mod QueryLemmas
pub mod SchemaLemmas
mod RestartLemmas
mod RefusalLemmas
pub mod JournalLemmas

pub mod Entries
pub mod Grammar
pub mod Stores
pub mod Journals
pub mod JournalFields
pub mod Reading
pub mod Writing

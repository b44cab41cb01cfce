pub mod Cutting
pub mod Framed
pub mod Fronts
pub mod Replies
pub mod Requests
pub mod Rest
pub mod Wholes

pub mod Replies
pub mod Admissions

pub mod ReplyText
pub mod Texts

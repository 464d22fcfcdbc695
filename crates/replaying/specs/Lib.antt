pub mod Replying
pub mod ReplyingLaws

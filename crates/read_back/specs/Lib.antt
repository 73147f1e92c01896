pub mod Tokens
pub mod Origins
pub mod ValueLaws

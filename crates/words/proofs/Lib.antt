pub mod PrefixLaws
pub mod TextLaws
pub mod NextLaws
pub mod LineLaws
pub mod ByteLaws
pub mod PlainLaws

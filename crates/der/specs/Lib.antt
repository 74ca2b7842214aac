pub mod Got
pub mod Element
pub mod Grammar
pub mod Holder

pub mod Tests
pub mod Saying
pub mod Owing
pub mod Hearing

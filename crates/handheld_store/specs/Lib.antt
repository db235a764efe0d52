pub mod Files
pub mod Ids
pub mod Indexes
pub mod Lents
pub mod Loans
pub mod Placed
pub mod Refusals
pub mod Stores

pub mod Bodies
pub mod Store
pub mod Lending
pub mod SlotCounting
pub mod SlotResponses
pub mod SlotArrays

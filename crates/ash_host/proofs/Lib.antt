pub mod Membership
pub mod Order
pub mod ReachLaws
pub mod SweepLaws
pub mod CountLaws
pub mod RecordLaws
pub mod NumberLaws
pub mod ObjectLaws

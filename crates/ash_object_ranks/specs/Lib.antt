pub mod ObjectRanks
pub mod RankLaws
pub mod IndexLaws
pub mod ShownTables
pub mod SweepLaws
pub mod RankExample

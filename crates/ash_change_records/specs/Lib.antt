pub mod ListedChanges

pub mod ShownWalks
pub mod ChildLists
pub mod Numbers
pub mod Visits
pub mod EachNode
pub mod WholeCall
pub mod Unique

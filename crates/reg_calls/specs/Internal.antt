-- Words that only private contracts and proofs use: the tree, the handles and the watches as calls find and leave them.
pub mod Stores
pub mod Askings
pub mod RoomQuestions
pub mod DeletedTrees
pub mod Admissions
pub mod Announcements
pub mod QuietKeys
pub mod Lacks

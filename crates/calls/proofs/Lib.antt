-- The proof of the law over lists of calls, in reading order.
-- words on lists and on the item table
pub mod ListLaws
pub mod Times
pub mod Spans
pub mod Table
-- the invariant
pub mod Invariant
-- a firing: what the page comes to, one note, all notes, the whole
pub mod Pages
pub mod NoteRows
pub mod Goes
pub mod Sorts
pub mod Fires
-- a settling
pub mod Ships
pub mod Settles
-- making, closing and feeding
pub mod Makes
pub mod Accepted
pub mod FedTable
pub mod Feeds
-- a step
pub mod BestBreaks
pub mod StepCases
pub mod Steps
-- lists of calls: the invariant along them, what it implies, and that nothing is lost
pub mod Holds
pub mod Finds
pub mod NothingLost
-- nothing is left once done was answered, and done comes in time
pub mod CallLists
pub mod NothingLeft
pub mod Budget
pub mod Time
pub mod Reaching

-- The steps of one block, and the invariant of its picture.
pub mod Facts
pub mod AfterMoves
pub mod AskStep
pub mod OrderStep
pub mod RespondStep

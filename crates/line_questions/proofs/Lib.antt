-- Laws of items.
-- the items of a line, one after the other
mod Parts
-- the numbers of items, read one by one
mod Counts
-- an item that is a place
mod Places
-- the bytes of the last item, in front of a buffer
pub mod Texts

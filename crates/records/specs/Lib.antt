-- What the contracts of `records` say, and the laws about it.

-- What to believe: the bytes of a record, with a worked one, what is refused, and the contract of each call.
pub mod Format
pub mod Worked
pub mod Refusals
pub mod Calls
-- Laws about it: what the definitions of the bytes and of good values come to, what follows from the contracts, and when
-- a call is refused.
pub mod FormatLaws
pub mod RefusalLaws
pub mod RecordMeans
pub mod RefusedExactly

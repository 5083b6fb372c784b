-- The states, in terms of which contracts are stated, of sources, sinks and listers (a lister gives a list item by item), and the rules of writing a
-- text to a sink.
pub mod Fault
pub mod Source
pub mod Sink
pub mod Puts
pub mod Status
pub mod Supply
pub mod Store
pub mod Edge
pub mod Fixed
pub mod Growing
pub mod Tally
pub mod Mixing

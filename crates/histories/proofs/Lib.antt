-- `ReadBack`, what is read in an output that begins with records; `Answered`, the number that an export answers tells its answer; `LentLaws`, calls with any
-- output; `Histories`, demand 2 of any calls and of every history; `DataInHistories`, its sentence on data; `RequestsInHistories`, one seat for a key, the
-- grounds for 0 and a client's own key; `TicksInHistories`, what a tick does, and who sits in a seat; `PongsInHistories`, what a pong does, and where a key
-- sits; `SilentInHistories`, the 40 seconds; `HandedInHistories`, whom a record is handed to; `ReturnsInHistories`, a client that comes back; `Retired`, no
-- answer is 2; `IsolationInHistories`, demand 3; `EverySequence`, every sequence of calls has a history; `RefusedLeaves`, a refused export leaves all as
-- before, and a room that is not whole is refused. Of nearest lists, buckets, packets, nodes and frames: `ListHistories`, demand 2 of lists, with the k
-- nearest; `EveryList`, any calls on a list have a history; `BucketHistories`, k-buckets: a question gets the 4 nearest, 20 is never given, what is held stays
-- held; `EveryBuckets`, any calls on buckets have a history; `WrittenAndRead`, reading what was written and writing what was read; `FrameStreams`, a stream of
-- frames, however it is cut; `OtherRefusedLeaves`, a refused export leaves all as before, but for two numbers of the reader of frames. Of runs of stored
-- calls: `RunIsChain`, a run is a chain of the single calls; `RunSeen`, what it wrote reads back; `RunStops`, what each stop means and how a second run goes
-- on; `RunEnds`, with enough allowance and output it ends at the end; `RunHistories`, demands 2 and 3.
pub mod ReadBack
pub mod Answered
pub mod LentLaws
pub mod Histories
pub mod DataInHistories
pub mod RequestsInHistories
pub mod TicksInHistories
pub mod PongsInHistories
pub mod SilentInHistories
pub mod HandedInHistories
pub mod ReturnsInHistories
pub mod IsolationInHistories
pub mod EverySequence
pub mod RefusedLeaves
pub mod Retired
pub mod ListHistories
pub mod EveryList
pub mod BucketHistories
pub mod EveryBuckets
pub mod WrittenAndRead
pub mod FrameStreams
pub mod OtherRefusedLeaves
pub mod RunIsChain
pub mod RunSeen
pub mod RunStops
pub mod RunEnds
pub mod RunHistories

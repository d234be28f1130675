-- Facts by computation: `AComputedTicks`, document 02's ticks, pings and pongs; `AComputedReturn`, its clients that come back; `ASmallRoom`, rooms where a seat
-- names its own key; `ComputedExamples`, document 01's examples on the room and its students' errors; `Computed` has what they share. Laws: `FindLaws` of
-- looking things up, `AnswerLaws` of the number that a client reads in an answer, `SentLaws` of how many bytes records take, `OutcomeLaws` of one outcome after
-- another, `PeerLaws` of the search for a connected peer, `SeatSet` of a seat that is replaced, `SeatedLaws` of whether a client is seated, `TickLaws` of what a
-- tick makes of each seat, `TickInTurn` of its parts one after the other. Theorems, for every room or history: `RefusedOrAccepted`, a refused call does nothing,
-- and none is refused with 2; `Counts`, a call answers how many bytes it wrote; `Whole`, the room stays whole; `ComesBack`, an arrival of a seated key is a
-- leave and an arrival; `OtherSeats`, an arrival, a leave or a packet changes the seats of its client alone; `Tied`, with `TiedArrival` for arrivals and
-- `TiedTick` for ticks, the room's tables and what has happened say the same, with `EachEvent` from one call to every history; `WithinOutput`, with `TickWithin`
-- for ticks, no call writes more than the output that it needs.
pub mod AComputedTicks
pub mod AComputedReturn
pub mod ASmallRoom
pub mod Computed
pub mod ComputedExamples
pub mod FindLaws
pub mod AnswerLaws
pub mod SentLaws
pub mod RefusedOrAccepted
pub mod Counts
pub mod OutcomeLaws
pub mod TickLaws
pub mod TickInTurn
pub mod Whole
pub mod ComesBack
pub mod PeerLaws
pub mod OtherSeats
pub mod SeatSet
pub mod SeatedLaws
pub mod TiedArrival
pub mod TiedTick
pub mod Tied
pub mod TickWithin
pub mod WithinOutput
pub mod EachEvent

-- Facts by computation: `ComputedConnected`, who is connected and who waits; `ComputedTicks`, ticks with exact records; `ComputedSilent`, a client that never
-- answers, to the second. Theorems, for every room or history: `ToldAgain`, a request made again after a disconnect connects both; `PeerConnected`, the search
-- for a peer finds who is connected; `DataGoesOn`, demand 2's sentence on data; `Told`, drops, leaves and requests tell exactly the connected; `Given`, what
-- arrivals, leaves, requests and drops are answered; `PingAndOutOfBand`, what pings, pongs and out-of-band sends do; `OneSeat`, a key sits in one seat, and a
-- request stands under one number, never under 0; `OwnKey`, the grounds for 0, and a client that asks for its own key; `Ticks`, what a tick is answered, who
-- leaves and who is pinged; `TickTells`, what it tells, in order; `TickHanded`, each of its records goes to the client that sat there before the call;
-- `CallHanded`, each record of an arrival or a leave goes to a client that sits there before the call and after it; `Silent`, a client that never answers is
-- gone 40 seconds after its latest arrival.
pub mod ComputedConnected
pub mod ComputedSilent
pub mod ComputedTicks
pub mod ToldAgain
pub mod PeerConnected
pub mod DataGoesOn
pub mod Told
pub mod Given
pub mod PingAndOutOfBand
pub mod OneSeat
pub mod OwnKey
pub mod Ticks
pub mod TickTells
pub mod TickHanded
pub mod CallHanded
pub mod Silent

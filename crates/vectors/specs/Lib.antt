-- `Examples`: document 01's examples P1 to P13, P3 as document 02 has it, as one table. `SeenByHost`: what the host sees of a row.
pub mod Examples
pub mod SeenByHost

-- `Holds`: document 01's examples P1 to P13, every row of the table. `SeenByHost`: the same of what the host sees of the exports.
pub mod Holds
pub mod SeenByHost

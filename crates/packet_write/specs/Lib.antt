-- What a reader must believe of the writers; what a packet is, and how one is judged, stands in `packet_laws`.
pub mod Written

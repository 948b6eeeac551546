-- A read is heard within four deliveries (document 02, Req 06): what it means to follow a packet.
pub mod Follow

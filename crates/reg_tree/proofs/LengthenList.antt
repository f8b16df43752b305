-- A key's last list of subkeys given room.
pub mod SubkeyRoom
pub mod ListCarved
pub mod ListMoved
pub mod KeyLengthened

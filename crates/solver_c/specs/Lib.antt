pub mod BitMachines

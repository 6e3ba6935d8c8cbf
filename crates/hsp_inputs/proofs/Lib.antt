pub mod Naming
mod Pieces
pub mod FewRegions
pub mod Finding
pub mod OneFault
pub mod Page
pub mod PageArcs
pub mod PageBuilt
pub mod PageRead
pub mod PageServers
pub mod PageSettings
pub mod PageSites
pub mod Steps
pub mod PageCosts
pub mod CertificateRead

pub mod InboundLaws

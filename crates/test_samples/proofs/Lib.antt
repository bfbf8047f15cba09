pub mod LotLaws

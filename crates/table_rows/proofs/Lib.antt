pub mod RowsPut

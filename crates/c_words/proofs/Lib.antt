mod LayoutParts

mod Bundles
mod Misuses
